pub mod Few
pub mod Rows
