-- What a program is checked over, and the types and demands of its operations.
pub mod BasisLemmas
pub mod OperationsLemmas
