pub mod Gathering
pub mod Unknowns
pub mod Refuting
pub mod Deciding
pub mod Stops
