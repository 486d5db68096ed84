-- The laws of this crate. For other crates to cite: ZeroFronts, StageParts, PreparedOutcome.
pub mod ZeroFronts
pub mod StageParts
pub mod EntryRow
pub mod RoomAndRow
pub mod ClosureSlots
pub mod PreparedOutcome
