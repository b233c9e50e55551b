-- What is read of the normal form of a typed text is ready for the typing rules: definitions and laws.
pub mod Binders
pub mod NormalReading
pub mod NormalScope
pub mod NormalTexts
pub mod Programs
pub mod Reading
pub mod TextPrograms
pub mod TypedTexts
pub mod Uniqueness
pub mod Uses
