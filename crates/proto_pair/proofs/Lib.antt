pub mod Paired
pub mod Versions
pub mod Arriving
pub mod Asking
