pub mod Head
pub mod Ids
