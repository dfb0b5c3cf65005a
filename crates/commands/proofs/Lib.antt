pub mod ChecksumLaws
pub mod CommandLaws
