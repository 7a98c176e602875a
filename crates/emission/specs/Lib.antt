pub mod Bodies
pub mod Fields
