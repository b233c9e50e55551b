-- Definitions that the contracts cite.
pub mod Matching
pub mod General
pub mod Uses
pub mod Instances
pub mod Visiting
