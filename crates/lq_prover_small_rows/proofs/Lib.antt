pub mod There
pub mod Sums
pub mod Fits
