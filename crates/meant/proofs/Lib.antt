pub mod OffsetMeans
pub mod SampleMeans
pub mod EntryMeans
pub mod EventMeans
pub mod BrandMeans
pub mod Means
pub mod IvSizes
