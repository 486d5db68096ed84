-- The work list as a list of numbers
pub mod Listed
