-- Why the simulated chips keep the rules: proofs, which stand here since the law of `Chip` is given with an `impl` and
-- cites them. There is nothing to believe in them.
pub mod Kept
pub mod Cases
pub mod Reaches
pub mod Sends
pub mod Status
pub mod Acts
pub mod Rounds
pub mod Moves
pub mod Carries
pub mod Single
pub mod Chips
