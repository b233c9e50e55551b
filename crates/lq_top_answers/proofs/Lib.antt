-- What is reported of a judgement: types of definitions, and demands that fail with their points.
pub mod AssignmentLemmas
pub mod FailureLemmas
pub mod InferredLemmas
pub mod TypeTextLemmas
