-- The calls of a recorded sheet, and the line that is printed.
pub mod Calls
pub mod Line
