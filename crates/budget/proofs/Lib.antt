-- The ways of `cover`
pub mod Covers
-- Equal charges in a row
pub mod EqualCharges
-- Parts that spend, one after the other
pub mod Spending
-- What a part came to and left
pub mod Outcomes
