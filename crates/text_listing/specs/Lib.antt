-- What the functions of this crate write, by the definitions of `model`, line after line.
pub mod Rows
pub mod Answer
