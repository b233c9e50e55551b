-- Facts that are kept: definitions.
pub mod Aiming
pub mod Answer
pub mod Kept
pub mod Places
pub mod Reads
pub mod Store
pub mod Way
