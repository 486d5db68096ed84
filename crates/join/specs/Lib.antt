-- What the join of a row asks and leaves
pub mod Rows
