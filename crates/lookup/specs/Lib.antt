-- What the functions of this crate ask of a place, and what they answer of all rows.
pub mod Inside
-- What the enum of this crate stands for, and what lookups say of a run.
pub mod Shown
pub mod Run
