pub mod Size
pub mod Read
pub mod Parsing
pub mod Sound
pub mod Asked
pub mod Parts
