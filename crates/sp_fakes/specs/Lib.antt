pub mod Calls
pub mod Scripts
pub mod MemLinks
pub mod Paces
pub mod Sinks
pub mod FilesHeld
pub mod Nets
pub mod MemWires
