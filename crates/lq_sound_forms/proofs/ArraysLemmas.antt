pub mod Lists
pub mod Fetching
pub mod Making
pub mod Storing
