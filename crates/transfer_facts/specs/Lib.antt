-- What the functions of this crate ask and answer, by the definitions of `model`.
pub mod Effect
pub mod Folds
