-- What the functions of this crate answer and ask, by the definitions of `model`.
pub mod Sizes
pub mod Measured
