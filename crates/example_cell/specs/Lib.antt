pub mod CellMeaning
pub mod Lawful
pub mod CellRows
