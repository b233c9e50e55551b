pub mod Items
pub mod Numbers
pub mod Taking
pub mod Clashing
pub mod Pruned
