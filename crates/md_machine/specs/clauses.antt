pub mod words
pub mod entries
pub mod nodes
pub mod slots
pub mod passes
