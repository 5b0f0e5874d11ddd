mod BegunLemmas
mod LossLemmas
pub mod ReferenceLemmas
pub mod RepeatingLemmas
mod RestoredLemmas
pub mod SameHostLemmas
pub mod TakenLemmas
pub mod GivenLemmas
pub mod HostingLemmas
pub mod EntryLemmas
pub mod VisitLemmas
pub mod ChangingLemmas
pub mod SavingLemmas
pub mod ServingLemmas
pub mod SyncedLemmas
