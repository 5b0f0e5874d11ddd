pub mod Appending
pub mod Journal
pub mod OtherJournals
pub mod State
