pub mod Report
pub mod Sums
pub mod Summary
