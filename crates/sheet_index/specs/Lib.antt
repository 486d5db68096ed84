-- What the tables of this crate hold, by the definitions of `model`.
pub mod Tables
