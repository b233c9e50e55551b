-- The equations of measures: definitions.
pub mod Facts
pub mod Views
