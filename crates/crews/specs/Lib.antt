pub mod Parts
pub mod Wires
pub mod Attached
pub mod Sections
pub mod Served
pub mod Gathering
