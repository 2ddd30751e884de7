pub mod Alone
pub mod Lent
