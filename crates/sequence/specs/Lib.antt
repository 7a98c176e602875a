pub mod Keyed
pub mod History
pub mod Order
pub mod Stream
