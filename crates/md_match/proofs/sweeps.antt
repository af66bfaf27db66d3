pub mod Ranges
pub mod BestPrices
pub mod Sweeps
pub mod Uncrossed
pub mod WorkedDays
