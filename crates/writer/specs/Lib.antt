pub mod Forms
pub mod Measured
pub mod Ready
