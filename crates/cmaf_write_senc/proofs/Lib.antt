pub mod PairLaws
pub mod SencLaws
pub mod ProtectableLaws
