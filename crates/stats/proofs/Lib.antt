pub mod CountLaws
pub mod MergeLaws
pub mod TallyLaws
