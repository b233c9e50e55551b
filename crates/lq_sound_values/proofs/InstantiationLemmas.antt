pub mod Closing
pub mod Instancing
pub mod Padding
pub mod Staying
