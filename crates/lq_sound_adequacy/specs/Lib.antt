-- Laws outside the headline: what a program is asked for speaks of bound names and is well sorted, and templates are subtypes of themselves.
pub mod Demands
pub mod Implications
pub mod Obligations
pub mod Points
pub mod Programs
pub mod Reflexivity
pub mod Subtypings
pub mod Templates
pub mod Texts
