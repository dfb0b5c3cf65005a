pub mod Prelude
pub mod Branded
