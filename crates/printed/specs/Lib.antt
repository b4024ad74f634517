pub mod Printed
pub mod Worked
pub mod Laws
pub mod Theorems
