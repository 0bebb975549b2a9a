pub mod Checks
pub mod Header
pub mod Coflow
pub mod Parts
pub mod Trace
