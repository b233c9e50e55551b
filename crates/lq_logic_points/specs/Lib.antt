pub mod Values
pub mod Evaluation
pub mod Function
pub mod Nearest
pub mod Arguments
pub mod Agreeing
