pub mod Heads
pub mod Tested
pub mod WornWords
