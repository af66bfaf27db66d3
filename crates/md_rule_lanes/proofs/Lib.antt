pub mod LaneSets
pub mod Counting
mod Sharing
