-- What the clauses of this crate cite.
pub mod Visits
pub mod Wanted
pub mod Once
