-- What the functions of this crate answer, by the definitions of `model`.
pub mod Ranges
pub mod Spans
