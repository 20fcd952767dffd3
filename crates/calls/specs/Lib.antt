pub mod Landing
pub mod Hex
