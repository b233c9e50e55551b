pub mod Pures
pub mod Values
