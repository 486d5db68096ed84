-- What the functions of this crate ask and answer, by the definitions of `model`.
pub mod Wrote
-- What the functions of this crate ask and answer, by the definitions of `model`.
pub mod Analysis
