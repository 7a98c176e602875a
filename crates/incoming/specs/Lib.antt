pub mod Came
pub mod Fitting
