pub mod ComeLemmas
pub mod GrowthLemmas
pub mod HeldLemmas
pub mod RoundLemmas
pub mod SliceLemmas
