-- What normal trees run as, and pure expressions: definitions.
pub mod Cores
pub mod Pures
pub mod Values
