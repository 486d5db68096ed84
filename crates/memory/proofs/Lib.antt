-- The laws of `front`, and of the loops that write it, for any element.
pub mod Front
pub mod StoreLoops
