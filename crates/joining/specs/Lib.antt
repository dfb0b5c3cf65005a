pub mod Number
pub mod Matches
pub mod Near
