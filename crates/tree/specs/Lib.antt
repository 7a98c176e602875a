pub mod Source
pub mod Known
pub mod Due
pub mod Verdict
