pub mod Numbered
pub mod Files
pub mod Shown
pub mod Field
pub mod Monthly
pub mod Cabled
pub mod Run
