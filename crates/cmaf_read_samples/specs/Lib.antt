pub mod Held
pub mod Ways
pub mod Sizes
