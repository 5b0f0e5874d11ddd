pub mod AllLemmas
pub mod ChangeLemmas
pub mod ChunkLemmas
pub mod MapLemmas
pub mod RiseLemmas
pub mod SearchLemmas
pub mod SpotLemmas
