pub mod Parts
pub mod Words
pub mod Top
pub mod Inner
pub mod Left
