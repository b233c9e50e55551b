-- Lemmas.
mod Numbers
mod Problems
mod Staged
mod Types
