pub mod Said
pub mod Deletions
pub mod Against
