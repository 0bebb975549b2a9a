pub mod Halves
pub mod Rounds
pub mod Service
pub mod Tries
