-- Subtypings whose names are new: definitions.
pub mod NewNames
