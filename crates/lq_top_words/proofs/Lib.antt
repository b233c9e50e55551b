-- The words of the command line, the command that they are, the texts that it is about, and sample programs.
mod CommandLemmas
pub mod InputsLemmas
pub mod SampleLemmas
