pub mod LineParts
pub mod LineLists
pub mod Known
pub mod Range
