-- Programs brought to their normal form, in one pass, and the names that are made in it.
pub mod MadeNamesLemmas
pub mod NormalizeLemmas
pub mod PassLemmas
