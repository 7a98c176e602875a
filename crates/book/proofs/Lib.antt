pub mod BookLaws
pub mod FirstLaws
pub mod RcidLaws
pub mod SparedLaws
