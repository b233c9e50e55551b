pub mod Among
pub mod Chosen
pub mod Judging
pub mod Index
pub mod Waking
pub mod Weakening
pub mod Solving
