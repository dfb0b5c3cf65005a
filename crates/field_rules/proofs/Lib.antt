pub mod CodingLaws
pub mod RoomLaws
pub mod SetLaws
pub mod StandLaws
pub mod Bounds
pub mod SetWords
