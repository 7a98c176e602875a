pub mod Glance
pub mod Front
pub mod Naming
pub mod Taken
pub mod Promise
pub mod Calls
