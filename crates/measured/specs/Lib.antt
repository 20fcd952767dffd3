pub mod Sum
pub mod Tape
pub mod SmallChip
