pub mod Message
pub mod Sums
