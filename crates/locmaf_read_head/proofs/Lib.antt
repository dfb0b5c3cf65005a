pub mod HeadLaws
pub mod IdLaws
