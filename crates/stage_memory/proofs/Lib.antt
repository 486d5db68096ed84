-- Question 8
pub mod RoomTests
-- Lent memory as records, for other crates to cite
pub mod RecordEqualities
