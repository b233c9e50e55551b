pub mod Making
pub mod Shaping
