pub mod OrderLines
pub mod Kept
pub mod Traded
pub mod Replay
pub mod Summed
pub mod Limits
pub mod Opening
