-- Lemmas of this crate.
pub mod Statuses
pub mod Sending
pub mod Determined
pub mod Caused
pub mod Verdicts
