pub mod Causes
pub mod Grows
pub mod MemSink
pub mod MemSource
pub mod StdSink
pub mod StdSource
pub mod Moves
