-- The generalised definitions that a program uses: definitions.
pub mod Defined
pub mod Laws
