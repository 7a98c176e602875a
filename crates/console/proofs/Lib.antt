pub mod NumberedLaws
pub mod ShownLaws
pub mod FieldLaws
pub mod MonthLaws
pub mod CabledLaws
pub mod Unique
pub mod RunLaws
