pub mod AnswerFacts
pub mod PictureFacts
pub mod PolicyFacts
pub mod RunFacts
pub mod TextFacts
pub mod WordFacts
