pub mod Nodes
pub mod NewNodes
pub mod MoreEnds
pub mod Waits
