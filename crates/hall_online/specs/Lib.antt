pub mod Beside
pub mod Halls
pub mod Serving
pub mod Told
