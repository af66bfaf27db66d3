pub mod Facts
pub mod RisingAlong
pub mod RowsHold
