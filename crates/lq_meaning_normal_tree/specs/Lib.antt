-- Normal trees: what they stand for.
pub mod AtomView
pub mod BlockView
