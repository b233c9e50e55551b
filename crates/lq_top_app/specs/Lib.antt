-- What the clauses of this crate cite.
pub mod Asked
pub mod Report
pub mod Ends
pub mod Once
pub mod Causes
pub mod Numbers
