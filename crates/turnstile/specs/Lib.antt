pub mod Histories
pub mod Models
pub mod Tells
pub mod Tickets
