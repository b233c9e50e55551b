pub mod Counted
pub mod Demands
pub mod Firsts
pub mod Keys
pub mod Lines
pub mod Shown
