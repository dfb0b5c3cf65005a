pub mod ScanLaws
pub mod TotalLaws
pub mod CopyLoop
