pub mod PartLaws
pub mod LentLaws
