pub mod Flags
pub mod Clocks
