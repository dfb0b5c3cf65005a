pub mod Sayings
pub mod Telling
pub mod Block
pub mod Read
