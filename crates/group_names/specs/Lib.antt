pub mod Same
pub mod Digest
