-- What visits ask, and what they make of the rows that lie in the lent slices
pub mod News
pub mod Visits
-- What one step asks, and what it makes of the rows that lie in the lent slices
pub mod Stepped
pub mod Lengths
pub mod OneStep
