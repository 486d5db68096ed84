-- The laws of this crate. For other crates to cite: OffsetTables, what the tables hold; IndexFound, what the analyses ask of a sheet's index.
pub mod PrefixSums
pub mod OffsetTables
pub mod IndexFound
