pub mod ShortLaws
pub mod StageLaws
pub mod WriteLaws
pub mod MadeLaws
pub mod SafeLaws
pub mod DoneLaws
pub mod RoomLaws
pub mod KeepLaws
