pub mod Rows
pub mod Samples
pub mod Columns
