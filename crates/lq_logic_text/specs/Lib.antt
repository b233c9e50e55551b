-- How names, terms and predicates are written.
pub mod Calling
pub mod Continued
pub mod Predicates
pub mod Terms
pub mod Views
