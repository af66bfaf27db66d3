pub mod Sums
pub mod States
pub mod Walking
pub mod SideWalks
pub mod Filling
pub mod EvenFields
pub mod PairCounts
pub mod Joined
