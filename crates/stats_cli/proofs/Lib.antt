pub mod AnswerFacts
pub mod FirstFacts
pub mod NumberFacts
pub mod RatioFacts
pub mod WordFacts
