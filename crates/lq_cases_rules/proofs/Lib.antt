-- Lemmas.
mod Binding
mod Posable
