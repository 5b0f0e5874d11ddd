pub mod ChangedLemmas
pub mod LoadedLemmas
