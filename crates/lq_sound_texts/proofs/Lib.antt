-- Typed texts whose implications are valid are safe: definitions and laws.
mod InstancesLemmas
mod MeasuresLemmas
pub mod TextsLemmas
pub mod TypedTextsLemmas
mod VarianceLemmas
