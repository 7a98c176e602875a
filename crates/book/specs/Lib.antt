pub mod Book
pub mod First
pub mod Rcids
pub mod Spared
