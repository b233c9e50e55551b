-- Lemmas.
pub mod Rows
pub mod Working
pub mod Agreed
pub mod Placing
pub mod Views
pub mod Filing
