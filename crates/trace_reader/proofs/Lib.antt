pub mod Rows
pub mod LineParts
pub mod CoflowLists
pub mod Accepted
pub mod TraceParts
pub mod FieldsDecide
