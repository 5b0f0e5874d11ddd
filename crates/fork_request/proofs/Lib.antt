pub mod AskingLemmas
pub mod Examples
pub mod HostLemmas
pub mod ItemLemmas
pub mod NameLemmas
pub mod PartLemmas
pub mod SpellingLemmas
pub mod WordLemmas
