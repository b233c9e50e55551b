-- What it is for a program's forms to run well: definitions.
pub mod Closed
pub mod Meets
pub mod Runs
pub mod Forms
