-- The definitions of what the three texts resolve to.
pub mod Resolution
pub mod Told
