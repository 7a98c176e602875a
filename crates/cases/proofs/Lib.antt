pub mod Case
pub mod Cases1
pub mod Cases2
