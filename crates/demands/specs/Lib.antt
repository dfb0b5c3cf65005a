pub mod One
pub mod Codec
pub mod Two
pub mod Three
pub mod Join
