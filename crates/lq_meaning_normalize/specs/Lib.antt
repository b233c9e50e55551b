-- Programs brought to their normal form, in one pass, and the names that are made in it.
pub mod MadeNames
pub mod Normalize
pub mod Pass
