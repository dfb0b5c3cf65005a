pub mod RowLaws
pub mod EachLaws
pub mod SampleLaws
