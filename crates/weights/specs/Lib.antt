pub mod Checks
pub mod Weights
