-- Three texts, a program, measures and qualifiers, from their bytes to these with their names bound, or why they are refused.
pub mod Bytes
pub mod Texts
pub mod Trees
