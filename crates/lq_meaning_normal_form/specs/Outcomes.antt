pub mod Naming
pub mod Alike
pub mod Named
pub mod Flattening
pub mod Flattened
pub mod Apart
pub mod Examples
pub mod OnePass
