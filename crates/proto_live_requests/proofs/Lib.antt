pub mod RequestLives
pub mod DryContexts
pub mod Outgoing
pub mod LiveIndexes
pub mod KeyedOuts
pub mod DueRequests
