pub mod Commit
pub mod Fault
pub mod Parents
pub mod Left
pub mod Whole
pub mod CommitIn
