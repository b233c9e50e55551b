pub mod Numbering
pub mod Completing
