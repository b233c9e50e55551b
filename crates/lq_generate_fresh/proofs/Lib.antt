-- Templates in tables, with the scopes of their unknowns.
mod CopiesLemmas
pub mod FreshLemmas
pub mod ScopesLemmas
