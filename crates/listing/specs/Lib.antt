pub mod Said
pub mod Lines
pub mod Left
pub mod Listed
pub mod Lists
