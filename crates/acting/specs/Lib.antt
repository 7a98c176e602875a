pub mod Ready
pub mod Acted
