pub mod LineLaws
pub mod NoneLaws
