pub mod PackLoop
pub mod CellLaws
pub mod TakeLaws
pub mod MarkedLaws
pub mod RoomLaws
