pub mod FileSteps
pub mod MemorySteps
pub mod ReadSteps
pub mod SoFar
pub mod WholeFiles
pub mod WriteSteps
