pub mod Numbers
pub mod Ends
pub mod Fronts
pub mod Lexing
pub mod Unique
pub mod Few
