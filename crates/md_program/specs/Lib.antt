pub mod Words
pub mod Replay
pub mod Run
pub mod Program
pub mod Bytes
