pub mod Saiz
