pub mod FollowingEntries
pub mod LineSteps
pub mod OrdersTold
pub mod RunsTold
pub mod ScriptsRead
pub mod SentFacts
pub mod WordsOfRuns
