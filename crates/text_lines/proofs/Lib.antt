-- Decimals, and texts in a buffer. TextWritten is for other crates to cite: one text behind another.
pub mod TextWritten
pub mod Decimals
pub mod SpacedNumbers
