-- Laws outside the headline: what a program is asked for speaks of bound names and is well sorted, and templates are subtypes of themselves.
mod DemandsLemmas
mod ImplicationsLemmas
pub mod ObligationsLemmas
mod PointsLemmas
mod ProgramsLemmas
mod ReflexivityLemmas
mod SubtypingsLemmas
pub mod TemplatesLemmas
mod TextsLemmas
