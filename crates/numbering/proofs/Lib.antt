pub mod ForestLaws
pub mod BackLaws
pub mod ValueLaws
pub mod BytesLaws
pub mod KnownLaws
pub mod ParentLaws
pub mod BlockLaws
pub mod EmittingLaws
