pub mod Readable
pub mod Named
pub mod Linked
pub mod Vouched
