pub mod PassedLaws
pub mod FoidLaws
pub mod SameLaws
pub mod ActLaws
pub mod ReviseLaws
