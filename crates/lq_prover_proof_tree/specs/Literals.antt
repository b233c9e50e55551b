pub mod Leaves
pub mod Sources
pub mod Gathered
pub mod Parts
pub mod LeafView
pub mod RowView
