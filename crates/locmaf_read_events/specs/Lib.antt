pub mod Events
pub mod Values
