pub mod Fewer
pub mod Small
pub mod Differences
