pub mod Continued
pub mod Refusals
pub mod Stages
