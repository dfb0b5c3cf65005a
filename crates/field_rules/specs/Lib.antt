pub mod Fields
pub mod Words
pub mod Vanished
pub mod Carried
