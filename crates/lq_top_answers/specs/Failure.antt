-- The texts of implications that fail or aren't decided.
pub mod Numbers
pub mod Occurrences
pub mod PointLines
pub mod Heads
pub mod Failures
pub mod Counts
pub mod Collected
pub mod Adding
pub mod Examples
