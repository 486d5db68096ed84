-- What a loop leaves that stores an element a turn, from the front.
pub mod Front
-- Zeros, as std's `fill` leaves them
pub mod Zeros
