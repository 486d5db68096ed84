-- The length facts: the tables they come from and are stored in, and that the index run is the same by them
pub mod EndedTables
pub mod LengthTables
pub mod IndexRuns
pub mod ConstantTables
-- The analyses in order
pub mod PartAfterPart
pub mod SameStages
pub mod ClearedOutputs
pub mod ConstantOutput
pub mod CallOrder
