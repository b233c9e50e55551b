-- The rules of a whole program's types, visit by visit.
pub mod Uses
pub mod Fronts
pub mod Principal
pub mod Inference
pub mod Places
pub mod OneAnswer
pub mod Example
pub mod Renaming
pub mod Laws
