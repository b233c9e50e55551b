pub mod Takes
pub mod Answered
pub mod Lexed
pub mod Numbered
pub mod Fits
pub mod Readings
pub mod Outcomes
