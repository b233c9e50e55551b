pub mod Lets
pub mod Shapes
pub mod Reading
