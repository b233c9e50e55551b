-- Programs whose needs can be read off: definitions.
pub mod Plain
pub mod DataExample
