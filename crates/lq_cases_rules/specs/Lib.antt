-- What holds of the programs of cases.
pub mod Cases
