pub mod Entries
pub mod Sizes
