pub mod Count
pub mod Kind
pub mod Maps
pub mod Name
pub mod Number
pub mod Object
pub mod Same
pub mod Text
