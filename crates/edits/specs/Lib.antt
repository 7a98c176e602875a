pub mod Search
pub mod Walks
pub mod Read
pub mod Says
pub mod Applied
