-- Lemmas.
pub mod BodySteps
pub mod Looking
pub mod Nexts
pub mod Plugging
pub mod Programs
pub mod RowSteps
pub mod Shapes
pub mod Steps
pub mod Taking
pub mod Types
pub mod Whole
