pub mod Normal
pub mod Pures
pub mod Reading
pub mod Resolving
