pub mod NumberLaws
pub mod PlaceLaws
pub mod IndexLaws
pub mod IndicesLaws
