-- The meaning of programs, step by step, and that a typed program never gets stuck.
pub mod Model
pub mod Progress
