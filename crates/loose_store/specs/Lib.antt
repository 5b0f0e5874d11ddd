pub mod Durability
pub mod Failures
pub mod Files
pub mod Fuse
pub mod MemoryFile
pub mod Stored
