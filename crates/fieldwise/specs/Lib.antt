pub mod Reader
pub mod Numbered
pub mod InFile
