-- The normal form of programs: that it keeps every outcome and every type, and what it binds.
pub mod Binders
pub mod Outcomes
pub mod Types
