pub mod Tree
pub mod TreeView
pub mod Path
pub mod Met
pub mod Proves
pub mod Examples
