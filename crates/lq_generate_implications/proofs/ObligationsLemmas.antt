pub mod Stating
pub mod Keeping
