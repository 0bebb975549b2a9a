pub mod FinishedLaws
pub mod FinishedSteps
pub mod RankSteps
pub mod SummarySteps
pub mod TextParts
