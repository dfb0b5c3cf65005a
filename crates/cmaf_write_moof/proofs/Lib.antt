pub mod ProtectionLaws
pub mod MoofLaws
