pub mod Took
pub mod Answered
pub mod Refusals
pub mod Room
