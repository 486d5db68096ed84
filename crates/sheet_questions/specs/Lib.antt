-- What the questions come to, by the definitions of `model`.
pub mod Check
pub mod Admitted
