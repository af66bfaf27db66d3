pub mod Charged
pub mod Operations
pub mod Nodes
pub mod Words
pub mod Working
pub mod Along
pub mod Parts
pub mod Refusals
