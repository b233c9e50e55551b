pub mod Environments
pub mod Limits
pub mod Goals
