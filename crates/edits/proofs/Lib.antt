pub mod SearchLaws
pub mod WalkLaws
pub mod ListLaws
pub mod ChangeLaws
pub mod DeedLaws
pub mod ReadLaws
pub mod TurnLaws
pub mod LinkLaws
