pub mod Case
pub mod CaseView
pub mod Deciding
pub mod Settled
pub mod Stopping
pub mod Small
pub mod Answer
