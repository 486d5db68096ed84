-- What the numbers of C say of a call
pub mod Wrappers
