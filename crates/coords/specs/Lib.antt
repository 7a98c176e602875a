pub mod Tuples
pub mod Placing
