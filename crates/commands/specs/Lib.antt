pub mod Checksum
pub mod Command
