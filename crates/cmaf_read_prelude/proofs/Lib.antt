pub mod NumberLaws
pub mod StypLaws
pub mod PrftLaws
pub mod ZeroLaws
pub mod EmsgLaws
pub mod EventLaws
