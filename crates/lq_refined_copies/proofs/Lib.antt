pub mod Longer
pub mod Completing
pub mod Counted
pub mod Summed
