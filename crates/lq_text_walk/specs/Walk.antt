pub mod Shape
pub mod Fold
pub mod Visits
pub mod Parts
pub mod View
pub mod Pending
