-- Marks and stack as they lie in lent memory and the room on the stack, and the marked slots where they are written.
pub mod Marks
pub mod Room
pub mod Slots
-- The fields that are seeds, by the definitions of `model`.
pub mod Fields
