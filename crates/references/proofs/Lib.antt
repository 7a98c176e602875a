pub mod MarkLaws
pub mod ReadableLaws
pub mod RecordLaws
pub mod DatasetLaws
pub mod VouchLaws
