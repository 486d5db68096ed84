-- Laws about the definitions, for whoever proves with them
pub mod Equality
pub mod Tests
pub mod Facts
pub mod SuccessorRecords
pub mod Metered
pub mod Loops
-- Document 01's proved cases, and the readings that the definitions shut out
pub mod Cases
pub mod Readings
pub mod Stages
