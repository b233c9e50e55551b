-- Programs with their names bound, or why they are refused.
mod BindingLemmas
mod ResolutionLemmas
