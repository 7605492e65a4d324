pub mod Blocks
pub mod Stretched
