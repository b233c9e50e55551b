-- Lemmas.
pub mod Reading
pub mod Binding
pub mod Parsed
pub mod Ruled
pub mod Typed
