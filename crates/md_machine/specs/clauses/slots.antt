pub mod WonInstalls
pub mod OddWords
pub mod Slots
pub mod Undecided
pub mod OwnInstalls
pub mod Clean
pub mod Uninstalls
pub mod UndecidedSlots
