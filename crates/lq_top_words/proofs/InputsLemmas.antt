-- Lemmas of this crate.
pub mod Within
pub mod First
