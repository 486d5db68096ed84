-- The lines of a row, and of the rows of an analysis
pub mod CellLines
pub mod RowLines
-- That the lines in order are the listing
pub mod AnalysisLines
pub mod AnswerText
