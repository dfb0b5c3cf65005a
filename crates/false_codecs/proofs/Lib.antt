pub mod Computed
pub mod Group
pub mod Refuted
pub mod Incident
