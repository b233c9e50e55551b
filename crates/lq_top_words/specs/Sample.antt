-- What the clauses of this crate cite.
pub mod Continued
pub mod Sample
