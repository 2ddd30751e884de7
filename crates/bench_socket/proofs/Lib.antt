pub mod Lending
pub mod OneCallerCores
