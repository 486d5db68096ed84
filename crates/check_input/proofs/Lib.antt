-- A buffer that is filled piece by piece
pub mod BufferReads
