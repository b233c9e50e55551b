pub mod Standing
pub mod Leaving
pub mod Widening
pub mod Speaking
pub mod Twins
