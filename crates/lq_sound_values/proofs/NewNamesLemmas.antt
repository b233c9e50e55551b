pub mod Wider
pub mod Fields
pub mod Parting
