pub mod FieldCuts
pub mod LineCuts
pub mod Digits
pub mod DecimalDigits
pub mod CheckLists
pub mod PartAnswers
