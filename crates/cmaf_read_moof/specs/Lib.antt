pub mod Headers
pub mod Defaults
