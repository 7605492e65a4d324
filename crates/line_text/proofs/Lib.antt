pub mod DigitLaws
pub mod PutLaws
