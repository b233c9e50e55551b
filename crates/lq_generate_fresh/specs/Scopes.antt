-- The scopes of unknowns as substitution needs them: definitions.
pub mod Numbered
pub mod Inside
