pub mod Indexed
pub mod Knowing
pub mod SearchedReceives
pub mod ContextsByNumber
pub mod Published
pub mod SubContexts
pub mod Subscribed
pub mod ReceivesLeft
