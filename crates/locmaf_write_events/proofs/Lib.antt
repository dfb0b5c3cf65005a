pub mod LentLaws
pub mod RecordLaws
pub mod ListLaws
pub mod SumLoop
pub mod FitLoop
pub mod WriteLoop
