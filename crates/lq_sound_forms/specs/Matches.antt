-- Matches on datatypes: definitions.
pub mod Matches
