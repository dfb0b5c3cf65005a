pub mod Numbers
pub mod Whole
pub mod Heads
pub mod Fills
