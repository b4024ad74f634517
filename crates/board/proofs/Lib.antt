pub mod Theorems
mod Worked
