pub mod Pubs
pub mod PubLaws
pub mod SubContexts
pub mod Subs
pub mod SubLaws
pub mod Topics
