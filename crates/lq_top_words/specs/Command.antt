-- What the clauses of this crate cite.
pub mod Arguments
pub mod Command
pub mod Line
pub mod Pieces
pub mod View
