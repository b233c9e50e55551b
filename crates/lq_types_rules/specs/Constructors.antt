-- Definitions that the contracts cite.
pub mod Agreeing
pub mod Tasks
pub mod Views
pub mod Building
pub mod Holding
