-- Marks and stack, as they lie in lent memory
pub mod Marks
-- The places of the marks
pub mod MarkedSlots
-- The seeds of an analysis
pub mod SeedRules
