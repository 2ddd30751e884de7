pub mod SocketCallers
pub mod ByPlace
pub mod PassesBetweenThreads
