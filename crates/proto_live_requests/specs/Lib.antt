pub mod ReqContexts
pub mod Lives
pub mod Outs
pub mod Dues
pub mod LiveRequests
