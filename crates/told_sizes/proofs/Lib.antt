pub mod SumLaws
pub mod ToldLaws
