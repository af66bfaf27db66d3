pub mod Chains
pub mod Passing
