pub mod Totals
pub mod Acts
pub mod Logs
