pub mod ChoiceLaws
pub mod CheckLaws
pub mod ListLaws
pub mod EachLaws
pub mod KeysLaws
pub mod WalkLaws
pub mod OptionLaws
