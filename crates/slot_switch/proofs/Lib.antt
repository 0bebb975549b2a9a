pub mod Ranges
pub mod RunSteps
