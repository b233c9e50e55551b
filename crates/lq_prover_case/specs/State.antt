pub mod Stored
pub mod RowState
pub mod Flags
pub mod PathState
