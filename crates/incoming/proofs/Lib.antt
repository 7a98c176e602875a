pub mod SingleLaws
pub mod ComingLaws
pub mod FittingLaws
