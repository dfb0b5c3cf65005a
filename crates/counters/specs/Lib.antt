pub mod Protected
pub mod Follow
