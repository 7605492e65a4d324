pub mod Alike
pub mod Halves
