-- Lemmas.
mod Making
mod Refused
mod Standing
