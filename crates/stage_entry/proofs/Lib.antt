-- What the layouts of a fact cost
pub mod LayoutCharges
-- The first row: the parameters' facts, and their charges
pub mod ParamFacts
pub mod ParamStarts
pub mod RowsMade
pub mod ParamSeeds
pub mod FirstRows
pub mod Refusals
