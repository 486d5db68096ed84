-- What the run is lent, the loop between two turns, and what a run answers and leaves
pub mod Memory
pub mod Turn
pub mod Result
