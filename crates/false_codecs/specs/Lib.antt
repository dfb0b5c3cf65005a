pub mod Example
pub mod False
pub mod Incident
