pub mod Share
pub mod Table
pub mod Calls
pub mod Laws
