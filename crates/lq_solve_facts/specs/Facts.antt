pub mod Facts
pub mod Known
pub mod Plain
pub mod Read
pub mod Values
