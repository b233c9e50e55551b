-- How refined types are written.
pub mod Letters
pub mod Types
pub mod Rows
pub mod ShownView
pub mod Views
pub mod Examples
