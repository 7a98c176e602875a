pub mod Forest
pub mod Rule
pub mod Acts
pub mod Edit
pub mod Flat
pub mod Reader
pub mod Paper
pub mod Opened
