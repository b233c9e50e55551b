pub mod First
pub mod Counting
pub mod Conjuncts
pub mod Those
pub mod Below
pub mod Bare
pub mod Deciding
pub mod Stopping
