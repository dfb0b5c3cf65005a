pub mod Changes
pub mod Fields
