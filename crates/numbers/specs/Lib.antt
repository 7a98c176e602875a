pub mod Refusals
pub mod Limited
pub mod Fair
pub mod Zero
