pub mod Deeds
pub mod Input
pub mod Tells
pub mod Value
