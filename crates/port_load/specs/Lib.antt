pub mod LoadTable
pub mod MarkTable
pub mod Kept
pub mod CellTable
pub mod Bottleneck
pub mod Pending
