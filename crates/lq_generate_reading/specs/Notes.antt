-- What is known of a typed program: definitions.
pub mod TypeSet
pub mod Slots
pub mod Known
pub mod Noted
