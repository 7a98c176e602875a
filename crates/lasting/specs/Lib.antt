pub mod Whole
pub mod Step
pub mod Stays
