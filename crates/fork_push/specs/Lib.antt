pub mod Here
pub mod Push
pub mod Verdict
