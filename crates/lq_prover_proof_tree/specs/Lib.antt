-- What implications are made of, and the trees that prove them.
pub mod Literals
pub mod Trees
