-- The laws of the list's operations
pub mod Listed
