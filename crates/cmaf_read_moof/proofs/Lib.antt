pub mod HeaderLaws
pub mod DefaultLaws
