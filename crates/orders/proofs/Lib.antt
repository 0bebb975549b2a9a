pub mod Places
pub mod LineParts
pub mod LineLists
pub mod Once
pub mod Whole
