pub mod Here
pub mod Ready
pub mod Played
pub mod Flags
pub mod Judged
