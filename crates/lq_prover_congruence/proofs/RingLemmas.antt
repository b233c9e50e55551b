pub mod Meeting
pub mod Crossing
pub mod Walking
