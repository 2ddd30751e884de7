pub mod Fulls
pub mod Verdicts
