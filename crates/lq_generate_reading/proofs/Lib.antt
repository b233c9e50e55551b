-- A typed normal program read as the typing rules have it.
mod GeneralNamesLemmas
mod NotesLemmas
mod ReadingLemmas
mod SourceNamesLemmas
mod VisibilityLemmas
