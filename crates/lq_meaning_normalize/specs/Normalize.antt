-- The pass over a tree by frames, and over a program.
pub mod Frames
pub mod Laws
pub mod Made
pub mod Parts
pub mod Program
pub mod Work
