pub mod lists
pub mod events
pub mod clauses
pub mod fates
mod Invariant
pub mod Reached
pub mod resolutions
mod Refusing
pub mod chain
pub mod replay
