pub mod AnswerLaws
pub mod PlaceLaws
pub mod AgainLaws
