-- Lemmas.
pub mod Weights
pub mod Nexts
pub mod Costs
pub mod Resolving
pub mod Paying
pub mod Few
pub mod Below
pub mod Texts
