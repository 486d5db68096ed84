-- The laws of this crate. What a sheet is like that questions 1 to 5 leave, for other crates to cite.
pub mod SizeNames
pub mod SizeLimits
pub mod SheetLength
pub mod FieldBounds
pub mod Sums
pub mod AcceptedSheet
