pub mod EntryLaws
pub mod SencLaws
pub mod SizeLaws
