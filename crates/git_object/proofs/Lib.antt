pub mod TagLemmas
pub mod WholeLemmas
pub mod ObjectLemmas
pub mod TagInLemmas
pub mod ObjectInLemmas
pub mod Examples
