pub mod OrderingSteps
pub mod TableSteps
pub mod StandSteps
pub mod BoundSteps
pub mod BeginSteps
pub mod AllCoflows
