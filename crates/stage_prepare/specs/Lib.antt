-- What a stage does before its run, and what it leaves
pub mod Begin
pub mod Prepare
