pub mod Symbols
pub mod House
pub mod Handed
pub mod Parse
pub mod Notation
pub mod Worked
pub mod Laws
pub mod Theorems
