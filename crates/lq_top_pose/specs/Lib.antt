-- From three texts to what is to be solved for them: definitions.
pub mod Stages
pub mod Views
