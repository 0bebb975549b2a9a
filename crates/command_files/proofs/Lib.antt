pub mod CauseFacts
pub mod FileTurns
pub mod GoodFacts
pub mod InputFacts
pub mod InputTurns
pub mod JobFacts
pub mod LimitFacts
mod LiveCauses
pub mod LiveTurns
pub mod OrderFacts
pub mod OrderFiles
pub mod ReportFacts
pub mod ScriptFacts
pub mod ShelfFacts
pub mod SinkFacts
pub mod TraceFacts
pub mod WeightsFacts
