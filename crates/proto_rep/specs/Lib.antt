pub mod Places
pub mod Replies
pub mod Operations
pub mod OperationLaws
pub mod Reps
pub mod RepLaws
pub mod Wins
