-- The laws of the loops that fill a room, and that put a list into a checksum.
pub mod ChecksumLoop
