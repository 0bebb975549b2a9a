pub mod Asked
pub mod Callers
pub mod Locked
