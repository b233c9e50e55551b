-- A typed normal program read as the typing rules have it.
pub mod GeneralNames
pub mod Notes
pub mod Reading
pub mod SourceNames
pub mod Visibility
