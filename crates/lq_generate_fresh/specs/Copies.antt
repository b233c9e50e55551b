-- That templates of one type are copies of each other: laws.
pub mod Laws
