-- What the fields of a constructor inhabit: definitions.
pub mod Standing
pub mod Fields
