pub mod Joined
pub mod Objects
