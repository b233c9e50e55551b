-- The typing rules with refinements, what a program is asked for, and its implications: definitions and laws.
pub mod ChecksLemmas
pub mod ObligationsLemmas
