pub mod SizeLaws
pub mod DurationLaws
pub mod ExpectedLaws
pub mod SumLaws
pub mod SizesAdd
pub mod AgreeLaws
