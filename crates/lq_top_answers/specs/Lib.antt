-- What is reported of a judgement: types of definitions, and demands that fail with their points.
pub mod Assignment
pub mod Failure
pub mod Inferred
pub mod TypeText
