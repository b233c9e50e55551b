-- Lemmas.
pub mod Values
pub mod Ends
pub mod Closing
pub mod Reading
pub mod Binding
pub mod Parsed
pub mod Armed
