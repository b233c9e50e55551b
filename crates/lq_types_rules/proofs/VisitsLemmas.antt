-- Lemmas.
pub mod Lists
pub mod Trees
pub mod Numbers
pub mod Ranges
pub mod Items
pub mod Programs
