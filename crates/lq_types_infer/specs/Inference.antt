-- Definitions that the contracts cite.
pub mod Pending
pub mod Defining
pub mod Copying
pub mod Opening
pub mod Gathering
pub mod Inferring
pub mod Adding
pub mod Programs
