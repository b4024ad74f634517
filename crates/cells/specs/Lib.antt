pub mod Read
pub mod Reads
pub mod Parts
pub mod Size
pub mod Asked
pub mod Laws
