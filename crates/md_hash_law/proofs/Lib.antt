mod RowsHold
