pub mod Release
pub mod ReleaseOrder
pub mod ReleaseStep
pub mod ReleaseTable
pub mod Rows
pub mod Best
