pub mod Placed
pub mod Flags
pub mod OwnNodes
pub mod OwnWords
pub mod FreeNodes
pub mod OwnNexts
pub mod EvenNexts
pub mod Noted
