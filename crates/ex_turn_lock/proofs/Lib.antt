pub mod Sums
pub mod WriteLemmas
pub mod Callers
pub mod WholeLogs
