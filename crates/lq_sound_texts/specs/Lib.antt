-- Typed texts whose implications are valid are safe: definitions and laws.
pub mod Instances
pub mod Measures
pub mod Texts
pub mod TypedTexts
pub mod Variance
