pub mod At
pub mod Rising
pub mod Options
pub mod Pairs
pub mod Differ
pub mod Splits
