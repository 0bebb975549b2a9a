pub mod Beside
pub mod Halls
pub mod Journals
pub mod Plans
pub mod Sent
