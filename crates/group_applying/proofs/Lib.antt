pub mod CallLaws
pub mod WrittenLaws
pub mod PutLaws
pub mod ApplyLaws
