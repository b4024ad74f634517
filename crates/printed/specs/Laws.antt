pub mod Printed
pub mod Board
pub mod Short
pub mod Worked
