pub mod PairLaws
pub mod MergeLaws
pub mod MeetLaws
pub mod PromiseLaws
pub mod UniqueLaws
