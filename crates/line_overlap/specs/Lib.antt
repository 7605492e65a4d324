pub mod Overlap
pub mod Told
