-- Replacements, parts and scopes: what the code's stand for.
pub mod Extending
pub mod Numbered
pub mod Composing
pub mod Scopes
pub mod Tables
pub mod Places
pub mod Placed
pub mod Restricting
pub mod Runs
pub mod Listed
pub mod Views
