pub mod EventLaws
pub mod ValueLaws
