pub mod Agreeing
pub mod Staying
pub mod Closing
pub mod Keeping
pub mod Blocks
