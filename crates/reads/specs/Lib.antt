pub mod Read
pub mod Reads
