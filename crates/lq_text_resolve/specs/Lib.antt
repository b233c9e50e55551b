-- Programs with their names bound, or why they are refused.
pub mod Binding
pub mod Resolution
