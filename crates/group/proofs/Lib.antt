pub mod GroupLaws
pub mod NamedLaws
pub mod FirstLaws
pub mod CaseLaws
pub mod PromiseLaws
pub mod ByteLaws
pub mod KeptLaws
