-- The edges to one slot, by the definitions of `model`
pub mod Sources
-- A slot taken from the stack, and what the loop of a closure asks and leaves
pub mod Taking
pub mod Expanded
-- What the functions of this crate answer, by the definitions of `model`
pub mod Closed
