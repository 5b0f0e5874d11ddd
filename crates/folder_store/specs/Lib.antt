pub mod Calls
pub mod Contents
pub mod Lasting
pub mod Listing
pub mod Lives
pub mod Place
pub mod Swept
pub mod Synced
