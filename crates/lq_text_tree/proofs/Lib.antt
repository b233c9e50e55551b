pub mod Copies
pub mod Depths
pub mod Finds
pub mod Frees
pub mod PatternViews
pub mod SimpleTypeViews
pub mod TreeViews
