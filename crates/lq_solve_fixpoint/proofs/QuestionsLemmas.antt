pub mod Picking
pub mod Joining
pub mod Unknowns
pub mod Adding
pub mod Leaving
pub mod Covering
