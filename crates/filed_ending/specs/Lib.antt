pub mod Ending
pub mod Found
