pub mod Finished
pub mod Groups
pub mod Percentile
pub mod Rows
pub mod Stats
pub mod Summary
pub mod Text
