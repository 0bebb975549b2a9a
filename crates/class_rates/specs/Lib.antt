pub mod Classes
pub mod ClassPatient
pub mod Cap
pub mod Tallies
pub mod Rows
