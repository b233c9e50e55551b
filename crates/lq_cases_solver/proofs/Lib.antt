-- Cases.
pub mod SolutionsLemmas
