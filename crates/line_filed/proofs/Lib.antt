pub mod AnswerLaws
pub mod OnceLaws
