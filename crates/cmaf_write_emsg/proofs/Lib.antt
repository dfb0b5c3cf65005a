pub mod LentLaws
pub mod EmsgLaws
