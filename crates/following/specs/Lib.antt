pub mod Naming
pub mod Merging
