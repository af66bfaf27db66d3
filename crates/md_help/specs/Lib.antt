pub mod After
pub mod Reads
pub mod Settles
pub mod Clears
pub mod Owns
pub mod Decided
