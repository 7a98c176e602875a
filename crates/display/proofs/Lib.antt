pub mod PoolLaws
pub mod CallLaws
pub mod Unique
