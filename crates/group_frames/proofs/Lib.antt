pub mod PartLaws
pub mod PlaceLaws
pub mod FrameLaws
pub mod CleanLaws
