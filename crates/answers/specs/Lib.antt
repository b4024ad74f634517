pub mod Answer
pub mod Ended
pub mod Told
pub mod Sheet
