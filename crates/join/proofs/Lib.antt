-- Joins of two cells, by the tests of the code
pub mod CellJoins
-- Containers, by kind and classes
pub mod ContainerEquality
-- A row that a loop joins from the left
pub mod Prefixes
pub mod CellChanges
pub mod JoinedPlaces
pub mod JoinLoop
