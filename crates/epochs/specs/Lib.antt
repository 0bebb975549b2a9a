pub mod Choice
pub mod Course
pub mod Tallies
