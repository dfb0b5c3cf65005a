pub mod OldLaws
pub mod RunLaws
pub mod NextLaws
pub mod FillLoop
pub mod MeasureLoop
pub mod PutLoop
