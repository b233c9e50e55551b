-- That names are used at types for their types' variables where earlier items defined them: definitions.
pub mod Trees
pub mod Laws
