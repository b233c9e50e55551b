-- Refined types, their parts, their operations and subtyping: definitions and laws.
pub mod PartsLemmas
mod RenumberingLemmas
pub mod SubtypingLemmas
pub mod TypesLemmas
