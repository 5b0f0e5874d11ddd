pub mod Asker
pub mod Frame
pub mod Fronts
pub mod Line
pub mod Next
pub mod Reading
pub mod Reply
