pub mod Fits
pub mod Leading
pub mod Waiting
pub mod Adding
