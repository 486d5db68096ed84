-- What the calls of a recorded sheet are lent, and the checksum of what they leave.
pub mod Lengths
pub mod Lent
pub mod Checksum
pub mod Elements
