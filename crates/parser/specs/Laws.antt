pub mod Judged
pub mod Simulated
pub mod Packed
pub mod Step
pub mod Outcome
