-- What is read of a typed text is plain, in scope and well sorted: definitions and laws.
mod EnvironmentsLemmas
mod GeneralUsesLemmas
pub mod MatricesLemmas
mod NameCountsLemmas
mod OperationsLemmas
pub mod ScalarsLemmas
pub mod ScopesLemmas
pub mod SortsLemmas
mod SplitsLemmas
mod ValuesLemmas
