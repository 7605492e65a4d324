pub mod NameLaws
pub mod DigestLaws
