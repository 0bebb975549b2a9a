pub mod Keeping
pub mod Merging
pub mod Toggled
pub mod Turning
pub mod Walking
