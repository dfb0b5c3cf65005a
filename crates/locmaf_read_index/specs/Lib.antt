pub mod Places
pub mod Index
pub mod Held
