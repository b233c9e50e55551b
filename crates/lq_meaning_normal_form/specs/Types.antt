-- The rules of types for normal trees, the types of made names, and that the normal form obeys the rules.
pub mod Typing
pub mod Made
pub mod Written
pub mod Plain
pub mod Programs
pub mod Laws
pub mod Examples
