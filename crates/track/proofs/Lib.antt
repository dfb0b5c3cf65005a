pub mod TrackLaws
pub mod IvLaws
