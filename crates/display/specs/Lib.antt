pub mod Pools
pub mod Calls
