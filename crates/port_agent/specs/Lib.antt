pub mod Attended
pub mod Served
