pub mod Restricting
pub mod Replacing
pub mod Values
pub mod Flows
pub mod Refuting
