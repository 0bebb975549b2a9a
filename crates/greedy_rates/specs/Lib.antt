pub mod Room
pub mod Pass
pub mod Owed
pub mod OpenPorts
