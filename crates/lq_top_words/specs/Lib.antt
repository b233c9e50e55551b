-- The words of the command line, the command that they are, the texts that it is about, and sample programs.
pub mod Command
pub mod Inputs
pub mod Sample
