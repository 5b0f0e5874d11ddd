mod AppendExamples
pub mod AppendLemmas
pub mod ClearingLemmas
mod JournalLemmas
pub mod OtherLemmas
pub mod PlacedLemmas
mod StateLemmas
mod SureLemmas
mod SyncLemmas
pub mod UnfailedLemmas
