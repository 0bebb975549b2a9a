pub mod Places
pub mod Stated
pub mod Sound
pub mod Reasons
pub mod Parts
