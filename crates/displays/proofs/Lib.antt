pub mod Room
pub mod Ruled
pub mod Form
pub mod Demand
pub mod Own
pub mod Sample
