pub mod Among
pub mod Rows
pub mod Items
pub mod Positions
pub mod Conds
pub mod Holding
