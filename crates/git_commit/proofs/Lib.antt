pub mod FrontLemmas
pub mod ParentLemmas
pub mod CommitLemmas
pub mod WholeLemmas
pub mod ReadLemmas
pub mod WritingLemmas
pub mod CommitInLemmas
pub mod Examples
