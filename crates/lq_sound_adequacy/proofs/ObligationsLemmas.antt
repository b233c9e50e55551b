-- Lemmas.
pub mod Pures
pub mod Fields
pub mod Operations
pub mod Arms
pub mod Cases
pub mod Blocks
pub mod Programs
