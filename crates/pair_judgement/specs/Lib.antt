pub mod Reason
pub mod Judgement
pub mod Ready
pub mod Where
