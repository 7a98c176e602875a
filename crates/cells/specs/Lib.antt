pub mod Cells
pub mod Keys
pub mod Acts
