-- Instances of qualifiers: definitions.
pub mod Scopes
pub mod Made
pub mod Instances
pub mod Same
pub mod Hashed
pub mod Seen
pub mod Views
pub mod Replacing
pub mod Counting
pub mod Kept
pub mod Listed
pub mod Shaped
