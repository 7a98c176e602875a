pub mod Numbers
pub mod Known
pub mod Block
pub mod Tuples
