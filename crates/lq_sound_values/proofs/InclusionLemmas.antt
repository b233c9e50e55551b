pub mod Truths
pub mod Knowing
pub mod Forms
pub mod Cells
pub mod Subtypes
pub mod Likes
pub mod Putting
