pub mod Pen
pub mod Short
pub mod Cells
