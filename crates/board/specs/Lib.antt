pub mod Board
pub mod Lent
pub mod Asked
pub mod Worked
