-- What a case is made of.
pub mod Heads
-- The lines that are printed.
pub mod Lines
-- The line that answers a question.
pub mod Answers
