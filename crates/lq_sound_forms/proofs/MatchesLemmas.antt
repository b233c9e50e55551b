pub mod Guards
pub mod Cases
