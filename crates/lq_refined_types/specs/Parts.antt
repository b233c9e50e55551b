-- Parts of refinements: definitions.
pub mod Substitution
pub mod Names
pub mod Part
pub mod Assignment
pub mod Values
pub mod Constraint
pub mod Flowing
pub mod Refuting
pub mod Laws
