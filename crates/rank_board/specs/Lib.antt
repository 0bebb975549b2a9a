pub mod Words
pub mod Pulls
pub mod Models
pub mod Banks
pub mod Tells
