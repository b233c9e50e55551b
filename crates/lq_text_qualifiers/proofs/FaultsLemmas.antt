pub mod Defining
pub mod Fields
pub mod Looking
pub mod Lookups
pub mod Ordering
pub mod Rows
