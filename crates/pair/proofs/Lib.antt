pub mod CallLaws
pub mod ClearedLaws
pub mod PromiseLaws
pub mod ReasonLaws
pub mod MeetLaws
pub mod UncappedLaws
pub mod Worked
