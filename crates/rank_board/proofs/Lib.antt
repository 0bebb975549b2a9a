pub mod Walks
pub mod Ranks
pub mod Views
pub mod Writing
pub mod Reading
pub mod Seats
pub mod Pulling
