pub mod TupleLaws
pub mod PlacingLaws
