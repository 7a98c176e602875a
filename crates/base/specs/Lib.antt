pub mod Choice
pub mod Check
pub mod Verdict
pub mod Text
pub mod Lists
pub mod Keys
pub mod Walk
pub mod Opened
