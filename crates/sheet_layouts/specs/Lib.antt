-- What the search for an equal layout asks, and the classes that it finds.
pub mod Classes
pub mod Readable
