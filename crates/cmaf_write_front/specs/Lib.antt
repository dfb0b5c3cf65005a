pub mod Front
pub mod Writable
