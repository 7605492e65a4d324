pub mod Code
pub mod Base
pub mod Written
