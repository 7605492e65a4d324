pub mod JudgeLaws
pub mod TreatLaws
pub mod ClearedLaws
