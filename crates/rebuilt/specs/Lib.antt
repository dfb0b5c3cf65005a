pub mod Chunk
pub mod Says
pub mod Read
