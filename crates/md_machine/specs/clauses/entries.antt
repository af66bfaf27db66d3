pub mod Fates
pub mod Sound
pub mod Numbered
pub mod Serials
pub mod PresentEntries
