pub mod Copies
pub mod Waits
