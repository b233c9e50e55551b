-- The typing rules with refinements, what a program is asked for, and its implications: definitions and laws.
pub mod Checks
pub mod Obligations
