-- Signed offsets, and their sums with an instruction's number
pub mod SignedOffsets
-- What a target adds to the successors
pub mod TargetTests
-- The successors, by the way in which the instruction goes on
pub mod FlowCases
