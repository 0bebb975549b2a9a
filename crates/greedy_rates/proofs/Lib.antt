pub mod PassSteps
pub mod LineSteps
pub mod ListSteps
pub mod Tallies
pub mod Groups
pub mod OpenPortSteps
pub mod OwedSteps
pub mod TestSteps
