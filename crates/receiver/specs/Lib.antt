pub mod Object
pub mod Receive
pub mod Judge
pub mod Opened
pub mod Laws
pub mod Parts
