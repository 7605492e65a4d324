pub mod RefusalLaws
pub mod ViewLaws
