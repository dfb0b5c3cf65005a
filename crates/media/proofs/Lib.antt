pub mod FlagLaws
pub mod ClockLaws
