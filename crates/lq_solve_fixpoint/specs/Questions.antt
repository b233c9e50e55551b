pub mod Assigned
pub mod Covering
