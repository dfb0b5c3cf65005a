pub mod Bmdt
pub mod Prft
