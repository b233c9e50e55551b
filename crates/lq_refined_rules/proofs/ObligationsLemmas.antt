pub mod Splitting
pub mod Shaping
