pub mod Growing
pub mod Sharing
pub mod Finding
pub mod Picking
pub mod Jumps
pub mod Placing
pub mod Copying
