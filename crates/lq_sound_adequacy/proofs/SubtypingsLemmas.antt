-- Lemmas.
pub mod Arms
pub mod Cases
pub mod Blocks
pub mod Programs
pub mod Implications
pub mod Differ
pub mod Normal
