-- What checks runs well, and is safe: definitions and laws.
pub mod PlainLemmas
pub mod SafetyLemmas
mod ScenesLemmas
