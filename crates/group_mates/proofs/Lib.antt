pub mod RoleLaws
pub mod KeyLaws
pub mod ChainLaws
pub mod OnceLaws
pub mod MateLaws
pub mod TableLaws
