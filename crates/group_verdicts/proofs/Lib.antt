pub mod IndexLaws
pub mod PlaceLaws
pub mod JudgeLaws
