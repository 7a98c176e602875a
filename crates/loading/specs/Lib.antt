pub mod Taken
pub mod Loads
