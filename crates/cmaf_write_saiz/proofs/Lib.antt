pub mod InfoLaws
pub mod SaizLaws
