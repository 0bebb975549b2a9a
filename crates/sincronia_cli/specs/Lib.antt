pub mod Causes
pub mod Command
pub mod Complete
pub mod FirstCause
pub mod Outcome
