pub mod BmdtLaws
pub mod PrftLaws
pub mod PrftFacts
