-- Definitions that the contracts cite.
pub mod Simple
pub mod Nodes
pub mod Solution
pub mod Classes
pub mod Value
pub mod Visits
pub mod Order
pub mod Solved
pub mod Knowing
pub mod Variables
pub mod Later
pub mod Copies
pub mod Growing
pub mod Reaching
pub mod Copying
pub mod Opens
pub mod Using
