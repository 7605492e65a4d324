pub mod Lead
pub mod Written
pub mod Short
pub mod Turn
