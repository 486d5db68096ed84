-- Question 8
pub mod Room
-- What is cleared
pub mod Stage
-- What an analysis asks, and what it leaves
pub mod Staged
-- The lent memory, as structs
pub mod Lent
