-- The laws of this crate, in order: what had news is entered, the state between two turns, what is answered and cleared, the loop, what is before it.
pub mod NewsEntered
pub mod LoopState
pub mod RunEnds
pub mod LoopTurns
pub mod FirstTurn
