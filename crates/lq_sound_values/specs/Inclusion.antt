-- When what inhabits one refined type inhabits another: definitions.
pub mod Symbols
pub mod Apart
pub mod Like
pub mod Putting
pub mod Laws
