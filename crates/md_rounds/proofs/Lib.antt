mod Names
pub mod Folding
mod TradingDay
mod Suiting
mod Keeping
pub mod Pigeons
pub mod BookLaws
mod Holding
mod Listing
mod Walking
mod Sums
mod Summaries
