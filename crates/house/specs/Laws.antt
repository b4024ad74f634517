pub mod Copying
pub mod Computed
pub mod Handed
pub mod Meaning
pub mod Stretch
pub mod Worked
