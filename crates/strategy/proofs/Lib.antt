pub mod RuleLaws
pub mod CapLaws
pub mod NumberLaws
