pub mod Lines
pub mod Tables
pub mod Runs
pub mod PlainFronts
mod PlainAttempts
mod PlainCalls
pub mod Branching
pub mod Parts
pub mod Plays
pub mod FewCalls
pub mod Keys
pub mod Weights
