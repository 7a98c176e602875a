pub mod PassedLaws
pub mod NamingLaws
pub mod OnceLaws
pub mod SourceLaws
pub mod MergingLaws
pub mod WholeLaws
