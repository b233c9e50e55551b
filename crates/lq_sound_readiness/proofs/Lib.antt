-- What is read of the normal form of a typed text is ready for the typing rules: definitions and laws.
mod BindersLemmas
mod NormalReadingLemmas
pub mod NormalScopeLemmas
pub mod NormalTextsLemmas
pub mod ReadingLemmas
mod TextProgramsLemmas
mod TypedTextsLemmas
mod UniquenessLemmas
mod UsesLemmas
