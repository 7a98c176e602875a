pub mod House
pub mod Runs
pub mod Parts
pub mod Found
