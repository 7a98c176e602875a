pub mod WalkLaws
pub mod WholeLaws
pub mod TiedLaws
pub mod NamingLaws
pub mod ReadableLaws
pub mod StepLaws
pub mod OldLaws
pub mod NewLaws
