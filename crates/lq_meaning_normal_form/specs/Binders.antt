-- What the numbers of binders say of a scoped program.
pub mod Counting
pub mod Apart
