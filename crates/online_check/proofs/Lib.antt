pub mod DoneSteps
pub mod Firsts
pub mod OneJudgement
pub mod OneOnline
pub mod OneReport
pub mod ReleasedSteps
pub mod Verdicts
pub mod WaitingSteps
