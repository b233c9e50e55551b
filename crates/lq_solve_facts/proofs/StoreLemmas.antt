pub mod Failing
pub mod Levels
pub mod Parts
pub mod Plain
pub mod Readings
pub mod Standing
pub mod Stores
pub mod Ways
