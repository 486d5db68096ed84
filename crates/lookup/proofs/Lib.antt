-- What the tests of slots and lengths show
pub mod AscendingLoop
pub mod Agreement
-- What the tests of a row and its cell show
pub mod Rows
-- What the tests of a lookup show
pub mod FixedSlots
pub mod LookupAnswers
-- Lookups in what a call left
pub mod NamedKinds
pub mod NamedTransfers
pub mod RowLookups
pub mod AfterCall
