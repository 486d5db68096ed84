-- What the functions that put numbers say of each other.
pub mod Numbers
