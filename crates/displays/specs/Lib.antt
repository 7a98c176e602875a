pub mod Display
pub mod Publisher
pub mod Demand
pub mod RoundTrip
