pub mod Command
pub mod Grant
pub mod Table
