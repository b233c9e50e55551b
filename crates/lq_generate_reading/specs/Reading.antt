-- Reading: the state, and what a step makes of it.
pub mod Blocks
pub mod Items
pub mod Lets
pub mod Names
pub mod Operations
pub mod Pures
pub mod State
pub mod There
pub mod Through
