pub mod Cached
pub mod Stores
