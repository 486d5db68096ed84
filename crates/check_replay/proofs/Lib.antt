-- The laws of the calls.
pub mod CallBuffers
pub mod CallsInTurn
