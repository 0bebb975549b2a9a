pub mod Views
pub mod Rule
pub mod Agreement
pub mod Tells
pub mod Answers
