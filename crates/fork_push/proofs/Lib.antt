pub mod LinkLemmas
pub mod OrderLemmas
