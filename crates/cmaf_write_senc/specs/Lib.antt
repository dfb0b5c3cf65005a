pub mod Protected
pub mod Protection
