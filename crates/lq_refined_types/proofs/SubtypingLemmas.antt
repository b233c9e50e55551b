pub mod Listing
pub mod Shaping
pub mod Splitting
