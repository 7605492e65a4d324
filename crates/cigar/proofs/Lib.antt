pub mod PlaceLaws
pub mod SitsLaws
pub mod CursorLaws
pub mod JudgeLaws
pub mod ExactLaws
pub mod ZeroLaws
