pub mod Ids
pub mod Maxima
