pub mod Given
pub mod Foids
