pub mod BySet
pub mod IvSizes
