pub mod NumberLaws
pub mod WholeLaws
pub mod FillLaws
pub mod HeadLaws
pub mod PlaceLaws
pub mod BoxedLaws
