pub mod Step
pub mod Treating
