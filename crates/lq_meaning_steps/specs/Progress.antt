pub mod Typing
pub mod Laws
pub mod Programs
pub mod Examples
