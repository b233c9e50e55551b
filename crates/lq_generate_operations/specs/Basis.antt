-- What programs are checked over, in memory: definitions.
pub mod Undoing
pub mod Names
pub mod Basis
pub mod Knowing
pub mod Growing
