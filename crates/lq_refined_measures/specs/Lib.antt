-- The equations of measures, and what lengths and measures are of the values of a program.
pub mod Equations
pub mod Values
