pub mod Formed
pub mod Levels
