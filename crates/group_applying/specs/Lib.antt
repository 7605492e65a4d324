pub mod Applied
pub mod Within
