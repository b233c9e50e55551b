pub mod Entries
pub mod Changing
pub mod Fields
pub mod Twins
pub mod Numbers
