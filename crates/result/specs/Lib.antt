pub mod Rest
pub mod Composed
pub mod Pass
pub mod Side
