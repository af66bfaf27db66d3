pub mod Calm
pub mod First
