pub mod Running
pub mod Numbers
pub mod Staying
pub mod Topped
pub mod Keeping
