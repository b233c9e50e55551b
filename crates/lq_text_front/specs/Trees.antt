-- What holds of the trees of every parsed text.
pub mod Laws
