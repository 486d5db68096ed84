-- The laws of cells, for other crates to cite.
pub mod Facts
pub mod TargetCell
pub mod NoteFacts
pub mod CheckedLengths
-- The laws of this crate. For other crates to cite: Ascending, Places.
pub mod Ascending
pub mod Rows
pub mod Places
pub mod FactSet
