pub mod OuterLaws
