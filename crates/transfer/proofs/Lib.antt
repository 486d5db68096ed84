-- Facts written into a row
pub mod SlotWrites
pub mod RangeWrites
-- A row through an instruction
pub mod RowTransfers
