-- Lemmas.
pub mod Dues
pub mod Staged
