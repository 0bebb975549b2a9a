pub mod Complete
pub mod Numbers
pub mod Parser
pub mod Rests
pub mod Status
pub mod Words
pub mod Written
