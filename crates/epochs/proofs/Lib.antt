mod NextStops
mod OneAction
mod ScanLoops
pub mod Searching
pub mod Actions
pub mod Tallying
