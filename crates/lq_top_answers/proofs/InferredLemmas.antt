pub mod Blocks
pub mod Picking
pub mod Texts
