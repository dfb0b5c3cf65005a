pub mod EventLaws
pub mod NumberLaws
pub mod NearLaws
pub mod NearCalls
pub mod FullJoins
