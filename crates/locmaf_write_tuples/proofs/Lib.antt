pub mod ItemLaws
pub mod AlikeLaws
pub mod TupleLaws
pub mod PutLaws
