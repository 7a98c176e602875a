pub mod Fit
pub mod Answers
pub mod Keys
pub mod Codes
pub mod Strays
