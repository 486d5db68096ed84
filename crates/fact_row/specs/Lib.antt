-- What a cell is where a test holds, by the definitions of `model`.
pub mod Target
-- What the functions of this crate ask and answer, by the definitions of `model`.
pub mod Rows
pub mod Tracked
pub mod Place
pub mod Changed
