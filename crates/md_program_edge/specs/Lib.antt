pub mod Streams
pub mod Status
pub mod Faults
pub mod Words
pub mod Options
pub mod Reading
