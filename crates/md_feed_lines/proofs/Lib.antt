pub mod Relaying
pub mod Feeding
pub mod Crossing
pub mod Scripts
