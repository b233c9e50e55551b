pub mod Pures
pub mod Blocks
pub mod Numbered
pub mod Named
pub mod Typing
pub mod Typed
