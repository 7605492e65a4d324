pub mod Arith
pub mod NumberLaws
pub mod ByteLaws
pub mod PositionLaws
pub mod CheckLaws
pub mod AmongLaws
pub mod NameLaws
