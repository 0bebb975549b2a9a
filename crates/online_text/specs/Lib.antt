pub mod Draft
pub mod Online
pub mod Readers
pub mod Reading
pub mod Text
