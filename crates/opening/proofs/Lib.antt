pub mod GeneralLaws
pub mod CarriedLaws
pub mod OpeningLaws
