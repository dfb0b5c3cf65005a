pub mod CellLaws
pub mod SizeLaws
