-- What operations give, and the environments of arms: definitions.
pub mod Fields
pub mod Growing
pub mod Over
pub mod Quotients
