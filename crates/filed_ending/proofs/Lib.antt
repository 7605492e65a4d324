pub mod EndLaws
pub mod TurnLaws
