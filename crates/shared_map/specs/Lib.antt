pub mod Building
pub mod Chunks
pub mod Spot
