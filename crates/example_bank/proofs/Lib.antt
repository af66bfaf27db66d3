pub mod Meets
pub mod Lawful
pub mod Making
pub mod Room
pub mod Sums
pub mod Journals
