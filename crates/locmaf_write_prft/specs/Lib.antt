pub mod Prft
