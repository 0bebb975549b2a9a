pub mod Checks
pub mod Orders
