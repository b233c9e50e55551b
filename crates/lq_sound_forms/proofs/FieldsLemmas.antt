pub mod Standing
pub mod Stands
pub mod Bare
pub mod Unfolded
