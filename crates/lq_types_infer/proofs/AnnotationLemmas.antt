-- Lemmas.
pub mod Types
pub mod Solved
pub mod Apart
pub mod Named
pub mod Seen
pub mod Measuring
pub mod Bounding
pub mod Renamed
pub mod Refusing
pub mod Naming
pub mod SlotsOf
pub mod Visited
pub mod Room
pub mod Numbers
pub mod Owners
pub mod Answered
