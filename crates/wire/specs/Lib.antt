pub mod Form
pub mod Varint
pub mod Zigzag
