pub mod Examples
pub mod Finding
pub mod Holding
