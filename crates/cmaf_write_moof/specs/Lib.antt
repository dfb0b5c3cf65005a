pub mod Moof
pub mod Lengths
