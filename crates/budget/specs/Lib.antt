-- What a part that spends comes to, in the words of crate model
pub mod Outcome
