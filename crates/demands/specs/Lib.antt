pub mod Moves
pub mod Says
pub mod Room
pub mod Laws
pub mod Demand1
pub mod Demand2
pub mod Demand3
