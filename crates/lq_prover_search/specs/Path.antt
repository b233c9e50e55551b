pub mod Literals
pub mod Meeting
pub mod Readings
pub mod SearchPath
