pub mod Acting
pub mod Moving
