pub mod Judged
pub mod Indexed
