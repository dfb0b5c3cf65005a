pub mod SaidLaws
pub mod TellingLaws
pub mod DeletionLaws
pub mod AgainstLaws
