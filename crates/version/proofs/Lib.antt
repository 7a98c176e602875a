pub mod AreaLaws
pub mod BodyLaws
pub mod RowLaws
