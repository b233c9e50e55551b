-- Lemmas.
pub mod Parts
pub mod Varying
pub mod Walking
pub mod Ahead
pub mod Finding
pub mod Going
pub mod Reading
