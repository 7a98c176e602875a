pub mod RestLaws
pub mod ComposedLaws
pub mod PassLaws
pub mod WalkLaws
pub mod SideLaws
pub mod KindLaws
