pub mod Names
pub mod Read
pub mod Retold
pub mod Run
pub mod Told
pub mod Value
