pub mod Words
pub mod Keys
pub mod Changes
pub mod Bits
pub mod Levels
pub mod Depths
pub mod Best
