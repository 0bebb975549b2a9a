pub mod Fault
pub mod Repeat
pub mod RunList
pub mod Waiting
pub mod Weights
