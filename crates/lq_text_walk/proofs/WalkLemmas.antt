pub mod Lets
pub mod Listed
pub mod Nexts
pub mod PatternPlaces
pub mod Rows
pub mod Spreads
