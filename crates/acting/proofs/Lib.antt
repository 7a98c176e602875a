pub mod VersionLaws
pub mod WideLaws
pub mod PartLaws
pub mod DueLaws
pub mod FieldsLaws
