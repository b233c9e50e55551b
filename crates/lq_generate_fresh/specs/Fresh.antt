-- Fresh templates in tables: definitions.
pub mod Fields
pub mod Views
pub mod Defined
pub mod Growing
pub mod Laws
pub mod Patterns
pub mod Standing
pub mod There
pub mod Walking
pub mod Wanted
