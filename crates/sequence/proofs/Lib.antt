pub mod Tests
pub mod Lists
pub mod Local
pub mod Refusal
pub mod Result
pub mod Gather
pub mod Stream
pub mod Arms
