pub mod Examples
pub mod Windows
pub mod Pairs
pub mod Alike
pub mod Slots
pub mod Powers
pub mod Kept
pub mod Faithful
