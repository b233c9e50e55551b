-- The definitions of tokens.
pub mod Bytes
pub mod Keywords
pub mod Symbols
pub mod Comments
pub mod Front
pub mod Places
pub mod Reading
