pub mod Areas
pub mod Held
pub mod Present
