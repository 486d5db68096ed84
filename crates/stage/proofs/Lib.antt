-- The laws of this crate, in order: what was begun, nothing to run, what ran.
pub mod StageBegun
pub mod NothingToRun
pub mod StageRun
