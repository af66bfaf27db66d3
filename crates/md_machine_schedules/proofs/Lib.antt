mod Walking
mod Certifying
mod Unlinks
mod walks
mod RowsHold
