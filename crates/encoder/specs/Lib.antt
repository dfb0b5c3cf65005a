pub mod Object
pub mod Encode
pub mod Planned
pub mod Laws
