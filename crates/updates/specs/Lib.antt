pub mod Acts
pub mod Sorted
pub mod Streamed
pub mod Accepted
