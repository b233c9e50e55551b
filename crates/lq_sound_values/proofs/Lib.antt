-- The values that inhabit refined types, and when the forms of a normal program run well: definitions and laws.
pub mod InclusionLemmas
pub mod InhabitantsLemmas
pub mod InstantiationLemmas
pub mod NewNamesLemmas
pub mod RunsLemmas
pub mod TwinsLemmas
