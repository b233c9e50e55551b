pub mod Naming
pub mod Literals
pub mod Equating
pub mod Values
