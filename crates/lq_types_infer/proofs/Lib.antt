-- Principal types of programs, and the types by which the uses of their definitions are instantiated.
mod AnnotationLemmas
pub mod InferenceLemmas
mod InstantiationLemmas
pub mod SolutionLemmas
