pub mod Fields
pub mod Styp
pub mod Prft
pub mod Emsg
