-- Lemmas.
pub mod Made
pub mod Points
pub mod Reading
