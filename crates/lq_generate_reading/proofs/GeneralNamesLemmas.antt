-- Lemmas.
pub mod Inside
pub mod Uses
