pub mod Terms
pub mod Equations
pub mod Pairing
pub mod Numbers
