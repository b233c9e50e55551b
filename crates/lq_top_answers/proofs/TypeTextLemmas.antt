pub mod Known
pub mod Rows
pub mod EntryRows
pub mod LetterRows
pub mod Sizing
pub mod TakenRows
