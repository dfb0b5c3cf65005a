pub mod Entries
pub mod Set
pub mod Stored
pub mod Gatherable
