pub mod Complete
pub mod Drawn
pub mod Parser
pub mod Picture
pub mod Policies
pub mod Status
pub mod Words
pub mod Written
