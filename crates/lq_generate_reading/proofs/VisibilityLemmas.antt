pub mod FitsSteps
pub mod LevelSteps
pub mod Names
pub mod NextScope
pub mod OneHidden
pub mod Walks
