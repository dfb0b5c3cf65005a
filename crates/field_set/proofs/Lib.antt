pub mod RegionLaws
pub mod TallyLaws
pub mod LawfulLaws
pub mod BareLaws
pub mod TidyLaws
pub mod RuleLaws
pub mod MarkLaws
pub mod ValueLaws
