pub mod Rows
pub mod Runs
pub mod Moves
pub mod Cells
pub mod Judged
pub mod Numbers
pub mod Packed
pub mod Room
