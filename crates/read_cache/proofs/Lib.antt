pub mod CacheLemmas
pub mod SureLemmas
pub mod WholeLemmas
