pub mod Jobs
pub mod Line
pub mod Parser
pub mod Words
