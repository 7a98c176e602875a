pub mod Stored
pub mod Stock
