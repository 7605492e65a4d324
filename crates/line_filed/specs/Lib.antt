pub mod FiledLine
pub mod Told
