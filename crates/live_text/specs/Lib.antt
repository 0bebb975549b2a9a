pub mod Draft
pub mod Live
pub mod Readers
pub mod Reading
pub mod Text
