pub mod Growth
pub mod Looks
pub mod Places
pub mod Slices
