pub mod Items
pub mod Events
