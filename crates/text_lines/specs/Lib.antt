-- What the functions of this crate leave in a buffer.
pub mod Text
pub mod Page
