pub mod RowsLaws
pub mod OrderLaws
pub mod TaggedLaws
pub mod GrammarLaws
