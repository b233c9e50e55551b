-- The made names of a normal program, in the order in which naming binds them.
pub mod Laws
pub mod Numbers
pub mod Order
pub mod Parts
pub mod Table
