pub mod Kept
pub mod Traces
pub mod Receives
pub mod Sends
pub mod Getters
pub mod Loopback
