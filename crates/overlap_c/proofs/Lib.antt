pub mod ReasonCallLaws
pub mod FiledCallLaws
