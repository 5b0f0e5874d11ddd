pub mod Marks
pub mod Namespace
pub mod Rule
