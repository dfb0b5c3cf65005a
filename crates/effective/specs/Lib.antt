pub mod Sizes
pub mod Durations
pub mod Expected
pub mod Sums
