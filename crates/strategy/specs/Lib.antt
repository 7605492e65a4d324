pub mod Rule
pub mod Cap
pub mod Number
