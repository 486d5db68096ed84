-- The edges of an instruction, by the definitions of `model`.
pub mod Rows
-- The charges before the analyses.
pub mod GraphCharges
-- The edges found by their destination: what the tables of chains hold, and what a chain tells.
pub mod Links
pub mod Chain
