pub mod words
pub mod slots
pub mod passes
pub mod entries
pub mod nodes
