-- When a slot is in a range
pub mod RangeTests
-- and in one of the written ones
pub mod RangeLoop
-- What an instruction writes, by its opcode
pub mod Spans
-- They are the slots that `model` says
pub mod WrittenSlots
