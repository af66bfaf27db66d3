pub mod Pieces
pub mod Parts
pub mod Settings
pub mod Ranges
