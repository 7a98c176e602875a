pub mod ItemLaws
pub mod TupleLaws
pub mod LoadLaws
