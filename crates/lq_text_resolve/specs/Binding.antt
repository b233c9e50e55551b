-- The definitions of how names are bound.
pub mod Binding
pub mod Heads
pub mod Machine
pub mod Making
pub mod States
pub mod Views
pub mod Whole
