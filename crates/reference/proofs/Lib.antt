pub mod OpenLaws
pub mod ExpectLaws
pub mod KeepLaws
pub mod AcceptedLaws
pub mod KeptLaws
