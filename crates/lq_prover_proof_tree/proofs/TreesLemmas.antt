pub mod Meeting
pub mod Comparing
pub mod Refuting
pub mod Opening
