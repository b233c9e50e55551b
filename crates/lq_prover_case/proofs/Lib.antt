-- One path of a search: facts, objects, and what the engines know of them.
pub mod EquationsLemmas
pub mod ObjectsLemmas
pub mod StateLemmas
