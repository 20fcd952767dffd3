pub mod Reported
pub mod Did
pub mod Law
