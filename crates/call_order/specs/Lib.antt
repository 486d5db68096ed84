-- What the functions of this crate ask and answer, by the definitions of `model`.
pub mod Lengths
-- The output of the constant analysis, and the length facts found from it
pub mod Stored
-- The first two analyses, and the answer of all three
pub mod Values
pub mod Answer
-- The constant run's tables, as a struct
pub mod Ended
