pub mod Standing
pub mod Reading
pub mod Counting
pub mod Paying
pub mod Parsed
