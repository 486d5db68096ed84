-- One visit, then those of the successors, then the step
pub mod VisitedTables
pub mod TwoSuccessors
pub mod OneStep
