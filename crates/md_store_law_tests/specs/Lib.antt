pub mod Row
pub mod UsedRow
