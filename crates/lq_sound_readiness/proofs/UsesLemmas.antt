-- Lemmas.
pub mod Fitting
pub mod Trees
pub mod Keeping
pub mod Seen
pub mod Normal
pub mod Tables
pub mod Typed
