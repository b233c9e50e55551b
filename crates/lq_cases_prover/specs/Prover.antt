-- What readings speak of.
pub mod Speaking
