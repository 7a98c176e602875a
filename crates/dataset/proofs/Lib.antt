pub mod RecordLaws
pub mod WalkLaws
pub mod FileLaws
