pub mod Answers
pub mod Openings
pub mod Stopping
pub mod Small
pub mod Values
pub mod Standing
