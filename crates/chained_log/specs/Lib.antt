pub mod Laws
pub mod Log
pub mod Next
pub mod Reading
pub mod Synced
pub mod Writing
