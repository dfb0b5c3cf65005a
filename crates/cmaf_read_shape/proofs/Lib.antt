pub mod PartLaws
pub mod RunLaws
pub mod TopLaws
pub mod InnerLaws
pub mod LeftLaws
pub mod OneBoxLaws
pub mod WordLaws
pub mod WholeLaws
