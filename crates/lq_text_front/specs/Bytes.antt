-- Three texts with their names bound, or why they are refused: definitions.
pub mod Refusals
pub mod Stages
pub mod Views
