pub mod Changed
pub mod Loaded
