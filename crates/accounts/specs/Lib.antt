pub mod Counts
pub mod Joins
pub mod Saved
pub mod Tally
pub mod Words
